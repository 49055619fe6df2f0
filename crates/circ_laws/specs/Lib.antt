pub mod Laws
pub mod ClassLaws
