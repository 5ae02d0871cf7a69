mod Examples
pub mod Amounts
pub mod DocumentLemmas
pub mod ManyTiers
pub mod PriceLemmas
pub mod RoomLemmas
pub mod SixPrices
pub mod TariffSteps
pub mod TierLemmas
pub mod ValueReading
pub mod RowReading
