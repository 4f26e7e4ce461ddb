mod TableLemmas
mod ListenerLemmas
mod Abandonments
mod Settling
