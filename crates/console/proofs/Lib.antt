-- Laws of known bytes.
mod StreamLaws
