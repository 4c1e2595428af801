pub mod Formula
