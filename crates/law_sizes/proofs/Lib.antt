pub mod BackLaws
pub mod DealLaws
pub mod EdgeLaws
pub mod OutputLaws
pub mod RectLaws
pub mod RoundLaws
pub mod SharelessViews
pub mod SharesKept
