-- No definition that a reader needs stands here: the layer's own crate has those.
pub mod joints
