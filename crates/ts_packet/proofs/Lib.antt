mod LinksLemmas
pub mod Masks
