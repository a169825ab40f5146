-- The laws of the words for a refusal.
mod ExplanationLaws
