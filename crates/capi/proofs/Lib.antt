-- Laws that belong to no one function.
pub mod FigureLaws
pub mod CallLaws
