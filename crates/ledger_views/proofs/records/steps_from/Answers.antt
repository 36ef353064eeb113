use Rattle.std.proofs.Common.{◌≡◌, ℕ, true, List, Option, Some, map, sym, ◌∙◌, ap, subst}
use Rattle.std.specs.Option.{option_copied}
use Rattle.std.specs.List.{All}
use Rattle.ledger_kept.specs.EutxoTypes.Parts.{Instance}
use Rattle.ledger_kept.specs.Roles.declared.published.Published.{Published}
use Rattle.ledger_kept.specs.Roles.Steps.{marlowe}
use Rattle.ledger_kept.specs.Roles.Terms.{terms_of}
use Rattle.ledger_kept.specs.LedgerLaws.Past.{Past}
use Rattle.ledger_kept.specs.LedgerLaws.Threads.{next_of, Link, Member, Carries}
use Rattle.ledger_kept.specs.LedgerSpec.Replay.{world, past_of, published_at}
use Rattle.ledger_kept.specs.LedgerSpec.Records.{member_of, TellTheRun, HoldNumbers}
use Rattle.ledger_kept.specs.ChainIndex.Contents.{Contents, end_in}
use Rattle.ledger_views.specs.RecordsSupport.{Leads}
use Rattle.ledger_views.proofs.RecordsLemmas.{is_named, carried_there, tells, leads_there, all_ok}
use Rattle.ledger_views.proofs.records.steps_from.Goals as goal

-- something is published under the script of a start
pub unreachable-requires : goal.unreachable-requires
unreachable-requires c =
    let w = world c.args.kept.now in
    let start = c.args.start.now in
    let kept = ap (λ (x : Contents). published_at x.published start.script) (sym c.requires.tied.contents) in
    let here = ap (λ (s : Instance). published_at c.args.index.now.present.published s.script) (sym c.start.view_is) in
    absurd (is_named c.threads_are_runs.ensures.run (published_at w.published) (past_of w) c.requires.tables c.requires.tied.sound c.args.reference.now start c.requires.start
    (kept ∙ here ∙ sym c.published_at.ensures ∙ ap option_copied c.in-None.is))

pub records_of-requires : goal.records_of-requires
records_of-requires c =
    let w = world c.args.kept.now in
    let start = c.args.start.now in
    let p = c.get.result.now in
    let t = terms_of p in
    let named = published_at w.published in
    let kept = ap (λ (x : Contents). published_at x.published start.script) (sym c.requires.tied.contents) in
    let here = ap (λ (s : Instance). published_at c.args.index.now.present.published s.script) (sym c.start.view_is) in
    let known = kept ∙ here ∙ sym c.published_at.ensures ∙ ap option_copied c.in-Some.is ∙ ap Some (sym c.get.ensures) in
    let links = c.deref.ensures.value ∙ c.in_ok-links-in-Some.ensures in
    let ends = c.end_of-end.ensures ∙ ap (λ (x : Contents). end_in x c.args.reference.now) c.requires.tied.contents ∙ c.index_follows_threads.ensures.ends w.published (past_of w) c.requires.tied.sound c.args.reference.now in
    let leads = subst (λ (ls : List Link). Leads (next_of marlowe named (past_of w)) ls c.end_of-end.result) (sym links) (leads_there named (past_of w) c.args.reference.now start c.requires.start c.end_of-end.result ends) in
    let there = carried_there c.threads_are_runs.ensures.run named (past_of w) c.requires.tables c.requires.tied.sound c.args.reference.now start c.requires.start p known in
    (named, past_of w, leads, (there.0, subst (λ (ls : List Link). Carries named (past_of w) t start.script ls there.0) (sym links) there.1))

pub returns : goal.returns
returns c =
    let w = world c.args.kept.now in
    let start = c.args.start.now in
    let p = c.get.result.now in
    let t = terms_of p in
    let law = c.threads_are_runs.ensures.run in
    let kept = ap (λ (x : Contents). published_at x.published start.script) (sym c.requires.tied.contents) in
    let here = ap (λ (s : Instance). published_at c.args.index.now.present.published s.script) (sym c.start.view_is) in
    let known = kept ∙ here ∙ sym c.published_at.ensures ∙ ap option_copied c.in-Some.is ∙ ap Some (sym c.get.ensures) in
    let named = published_at w.published in
    let links = c.deref.ensures.value ∙ c.in_ok-links-in-Some.ensures in
    let ends = c.end_of-end.ensures ∙ ap (λ (x : Contents). end_in x c.args.reference.now) c.requires.tied.contents ∙ c.index_follows_threads.ensures.ends w.published (past_of w) c.requires.tied.sound c.args.reference.now in
    let leads = subst (λ (ls : List Link). Leads (next_of marlowe named (past_of w)) ls c.end_of-end.result) (sym links) (leads_there named (past_of w) c.args.reference.now start c.requires.start c.end_of-end.result ends) in
    all_ok c.records_of.result
    (λ xs. (names : List ℕ → Option Published) (q : Past) (run : List Member) → Leads (next_of marlowe names q) c.deref.result.now c.end_of-end.result → Carries names q t start.script c.deref.result.now run →
    Carries names q t start.script c.deref.result.now (map (member_of t) xs))
    (λ xs. All (λ x. t.has x.number ≡ true) xs)
    (λ xs. (names : List ℕ → Option Published) (q : Past) → Leads (next_of marlowe names q) c.deref.result.now c.end_of-end.result → HoldNumbers names q c.deref.result.now xs)
    (λ xs. TellTheRun named (past_of w) c.args.reference.now start xs)
    (λ xs carried numbers held.
    let there = carried_there law named (past_of w) c.requires.tables c.requires.tied.sound c.args.reference.now start c.requires.start p known in
    tells law named (past_of w) c.requires.tables c.requires.tied.sound c.args.reference.now start c.requires.start p known xs
    (subst (λ (ls : List Link). Carries named (past_of w) t start.script ls (map (member_of t) xs)) links
    (carried named (past_of w) there.0 leads (subst (λ (ls : List Link). Carries named (past_of w) t start.script ls there.0) (sym links) there.1))) numbers
    (subst (λ (ls : List Link). HoldNumbers named (past_of w) ls xs) links (held named (past_of w) leads)))
    c.records_of.ensures.carried
    c.records_of.ensures.numbers
    c.records_of.ensures.held
