-- What is answered, and what stands.
pub use Rattle.wm_assemble.specs.Answers.{Refuses, Answers}
