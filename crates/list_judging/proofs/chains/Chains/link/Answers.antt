-- `chains::Chains::link` meets its contract: the account becomes the last one of its bucket, before the one that was.
use Rattle.list_judging.proofs.ChainLaws.{chains_more}
use Rattle.list_judging.proofs.chains.Chains.link.Goals as goal

pub returns : goal.returns
returns c = chains_more c.requires.2 _ c.bucket_of-bucket.ensures.0 c.bucket_of-bucket.ensures.1 c.requires.1
