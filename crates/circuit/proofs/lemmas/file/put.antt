-- The laws of `specs/private/Put.antt` and of what the writer's functions make.
pub mod Cut
pub mod Laws
pub mod Marks
