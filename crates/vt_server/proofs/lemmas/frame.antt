-- The step of a received frame has the effect and the outputs of its definition.
pub mod ClaimEffect
pub mod FrameEffect
pub mod FrameStep
pub mod NoRefusalByFrame
pub mod PreparationAfterTimeouts
pub mod UploadEnds
