pub mod ScriptItems
pub mod Scripts
pub mod Keys
pub mod Items
pub mod EachTerminal
