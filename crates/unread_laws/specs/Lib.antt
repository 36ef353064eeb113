pub mod ReadersForms
