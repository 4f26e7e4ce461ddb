-- Texts; boards; calls that run and the ids that they took; right answers of a script, and runs.
pub mod TextLemmas
pub mod ScriptTextLemmas
pub mod ShortLemmas
pub mod BoardSizeLemmas
pub mod SizedLemmas
pub mod CallLemmas
pub mod RoomLemmas
pub mod ScriptLengthLemmas
pub mod RunLemmas
