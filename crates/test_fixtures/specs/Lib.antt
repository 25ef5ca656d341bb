-- The settings and the terminals of the tests.
pub mod Lines
-- Records and their characters.
pub mod Records
