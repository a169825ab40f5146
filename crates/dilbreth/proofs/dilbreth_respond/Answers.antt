-- `dilbreth_respond` meets its contract: what is printed has at least one byte, so that no byte tells a short output.
use mathlib.Core.Path.{refl}
use Rattle.dilbreth.proofs.ExportLaws.{respond_whole, respond_none}
use Rattle.dilbreth.proofs.dilbreth_respond.Goals as goal

pub returns-then-response-eq0 : goal.returns-then-response-eq0
returns-then-response-eq0 c = rw c.from.ensures (respond_none c.args.text.now _ c.args.output.now _ c.args.written.now c.respond-response.result _ _ refl c.if-response-eq0.true c.respond-response.ensures)

pub returns : goal.returns
returns c = respond_whole c.args.text.now _ c.args.output.now _ c.args.written.now c.respond-response.result _ _ refl (λ _ z. c.if-response-eq0.false z) c.respond-response.ensures
