pub mod GivenLines
