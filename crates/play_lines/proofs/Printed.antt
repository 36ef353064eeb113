-- What is printed at once, and a round begun.
use Rattle.std.proofs.Common.{◌≡◌, ℕ, List, ◌∷◌, ◌++◌, sym, ap, ◌∙◌, append_assoc, codes, subst, Result, Ok, Err, is_ok, OnOk, if◌then◌else◌}
use Rattle.builder_spec.specs.Ledger.declared.call.Reply.TheVariants as replies
use Rattle.builder_spec.specs.Ledger.declared.call.Ticketed.{Ticketed}
use Rattle.play_lines.specs.PlayLines.{ticket_text, tickets_on, reply_text}

-- a text that was printed is the one that is said
pub printed-as : {E : Type 0} (r : Result (Unit {0}) E) (old new text said : List ℕ) → text ≡ said → OnOk r (new ≡ old ++ text) → OnOk r (new ≡ old ++ said)
printed-as r old new text said same printed = subst (λ w. OnOk r (new ≡ old ++ w)) same printed

-- the same behind a push, which says what it leaves in either case
pub pushed-as : {E : Type 0} (r : Result (Unit {0}) E) (old new text said : List ℕ) → text ≡ said → new ≡ (if is_ok r then old ++ text else old) → OnOk r (new ≡ old ++ said)
pushed-as (Ok done) old new text said same pushed = pushed ∙ ap (λ w. old ++ w) same
pushed-as (Err fault) old new text said same pushed = tt

-- a round's first ticket was printed, and the others are left
pub begun : (old a b : List ℕ) (first : Ticketed) (rest all : List Ticketed) → a ≡ old ++ codes "round " → b ≡ a ++ ticket_text first → all ≡ first ∷ rest → b ++ tickets_on rest ≡ old ++ reply_text (replies.Round all)
begun old a b first rest all opened ticket whole =
    ap (λ w. w ++ tickets_on rest) (ticket ∙ ap (λ w. w ++ ticket_text first) opened)
    ∙ (append_assoc (old ++ codes "round ") (ticket_text first) (tickets_on rest)
    ∙ (append_assoc old (codes "round ") (ticket_text first ++ tickets_on rest)
    ∙ ap (λ ts. old ++ reply_text (replies.Round ts)) (sym whole)))
