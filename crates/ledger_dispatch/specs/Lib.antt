pub mod DispatchSupport
