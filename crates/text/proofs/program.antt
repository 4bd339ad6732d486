-- `Laws`: an answer and the clause buffer give the text of the verdict that they say.
pub mod Laws
