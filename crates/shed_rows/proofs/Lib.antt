mod Committed
mod Left
