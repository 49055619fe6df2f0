pub mod Minted
pub mod Token
