pub mod Blob
pub mod Body
pub mod Connection
pub mod Examples
pub mod Fragment
pub mod Laws
pub mod Port
pub mod Token
