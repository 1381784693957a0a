pub mod DeskLemmas
pub mod LawLemmas
pub mod RiseLemmas
pub mod TextLemmas
pub mod TwiceLemmas
pub mod ValueLemmas
