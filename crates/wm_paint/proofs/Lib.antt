pub mod EscapeLemmas
pub mod LawLemmas
pub mod PictureLemmas
pub mod PixelLemmas
pub mod RowLemmas
pub mod SpanLemmas
