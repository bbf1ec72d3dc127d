-- A column replaced: the checks, the judgment, the change.
pub mod ReplaceChecks
pub mod Reply
pub mod Replace
pub mod Change
