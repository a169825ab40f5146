-- Laws of the calls in either form.
mod ListingLaws
