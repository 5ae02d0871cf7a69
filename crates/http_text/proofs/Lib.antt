mod Examples
pub mod Going
pub mod LongTexts
pub mod PieceLemmas
pub mod PieceTexts
pub mod RoomLemmas
pub mod Small
pub mod Statuses
pub mod Texts
pub mod Whole
