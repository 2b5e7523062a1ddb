mod Fronts
mod RecordsLemmas
mod ReadLemmas
pub mod Cuts
