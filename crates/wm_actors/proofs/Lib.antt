pub mod ExitLemmas
pub mod PaintLemmas
pub mod SinceLemmas
pub mod TickLemmas
pub mod WorkLemmas
