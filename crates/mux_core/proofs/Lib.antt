pub mod ByCarrier
