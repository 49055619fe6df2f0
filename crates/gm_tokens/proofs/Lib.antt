pub mod Minting
