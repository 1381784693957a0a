pub mod OutputNameLaws
pub mod SpaceNameLaws
