pub mod PlayedSupport
