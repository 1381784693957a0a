pub mod DrawLemmas
pub mod EndLemmas
pub mod FramesLemmas
pub mod LineLemmas
pub mod MessageLemmas
pub mod RefusalLemmas
pub mod RunLemmas
pub mod ScriptEnds
