pub mod NameLaws
pub mod NodeKinds
pub mod RoundTrip
pub mod Parts
