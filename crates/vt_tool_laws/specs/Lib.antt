-- The definitions of the laws of vt_tool_laws.
pub mod Certain
pub mod InspectLaws
pub mod ListenLaws
pub mod PictureLaws
pub mod PlaceLaws
pub mod Promises
