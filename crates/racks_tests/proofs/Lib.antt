pub mod LetGo
