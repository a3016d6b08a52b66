-- The definitions used in the contracts of vt_frames_text.
pub mod Replies
