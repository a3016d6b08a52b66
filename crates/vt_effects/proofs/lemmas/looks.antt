-- What the text of a screen shows of objects, and the commands that leave it.
pub mod SameLook
pub mod SameValues
pub mod UnseenFields
