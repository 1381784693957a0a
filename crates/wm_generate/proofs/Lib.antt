mod GenerateLemmas
mod TextLemmas
