pub mod Crt
pub mod NttForm
