-- `read` meets its contract: the answers of its parts are those of the definition, and the lists are filled last.
use Rattle.std.proofs.Common.{inl, inr}
use Rattle.series.proofs.ResultLaws.{refusal_met}
use Rattle.lists.proofs.CopyLaws.{copied_first}
use Rattle.text_rules.proofs.ReadLaws.{PositionsRead, head_refused, positions_fault, codes-short, accounts-short, numbers-short, read_all}
use Rattle.series_text.proofs.read.Goals as goal
use Rattle.series_text.proofs.read.Goals.{In_ok-n}

-- the position lines, as they were read into three lists
positions : (c : In_ok-n) → let h = c.in_ok-head.head in let l = c.read_positions.new.lists in
    PositionsRead (record { terms = h.terms; form = h.columns.form; coded = h.columns.coded }) h.lines.now l.codes l.accounts l.numbers c.in_ok-n.n
positions c = let within = c.in_ok-n.ensures.within in record { reads = c.in_ok-n.ensures.means _ _; in_codes = within.1; in_accounts = within.2; in_numbers = within.3 }

pub returns-in_err-head : goal.returns-in_err-head
returns-in_err-head c =
    rw (refusal_met c.from_residual.result _ c.from_residual.ensures.1) (head_refused c.args.text.now c.args.codes.now c.args.accounts.now c.args.numbers.now c.in_err-head.ensures)

pub returns-in_err-n : goal.returns-in_err-n
returns-in_err-n c =
    rw (refusal_met c.from_residual-in_err-n.result _ c.from_residual-in_err-n.ensures.1) (positions_fault c.args.text.now c.args.codes.now c.args.accounts.now c.args.numbers.now c.in_ok-head.ensures (c.in_err-n.ensures.means _ _))

pub returns-then-codes-n : goal.returns-then-codes-n
returns-then-codes-n c =
    let p = positions (goal.at.returns-then-codes-n c).In_ok-n in
    elim c.then-codes-n.either [
      | inl short ↦ codes-short c.args.text.now c.args.codes.now c.args.accounts.now c.args.numbers.now c.in_ok-head.ensures p short
      | inr (inl short) ↦ accounts-short c.args.text.now c.args.codes.now c.args.accounts.now c.args.numbers.now c.in_ok-head.ensures p short.1
      | inr (inr short) ↦ numbers-short c.args.text.now c.args.codes.now c.args.accounts.now c.args.numbers.now c.in_ok-head.ensures p short.2
    ]

pub returns : goal.returns
returns c =
    let p = positions (goal.at.returns c).In_ok-n in
    read_all c.args.text.now c.args.codes.now c.args.accounts.now c.args.numbers.now c.in_ok-head.ensures p c.if-codes-n.false c.if-accounts-n.false c.if-numbers-n.false
    (copied_first _ _ _ c.in_ok-n.n p.in_codes c.if-codes-n.false c.copy.ensures)
    (copied_first _ _ _ c.in_ok-n.n p.in_accounts c.if-accounts-n.false c.copy-2.ensures)
    (copied_first _ _ _ c.in_ok-n.n p.in_numbers c.if-numbers-n.false c.copy-3.ensures)
