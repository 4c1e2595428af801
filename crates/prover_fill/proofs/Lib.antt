mod WithH
mod Scratch
mod ComputeH
