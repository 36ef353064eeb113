use Rattle.std.proofs.Common.{◌∙◌, ap, List}
use Rattle.std.specs.Map.{values_of}
use Rattle.ledger_spec.specs.EutxoTypes.declared.output_ref.OutputRef.{OutputRef}
use Rattle.chain_index.specs.HolesSupport.{live, staying}
use Rattle.chain_index.specs.PartsSupport.{contents_in}
use Rattle.chain_index.proofs.LiveLemmas.{none_leave}
use Rattle.chain_index.proofs.parts.Parts.settle.Goals as goal

pub returns-clause-same : goal.returns-clause-same
returns-clause-same c =
    let s = c.self.inside in
    let es = live c.close_if_many-self-inside.new.self in
    let ds = live c.close_if_many-self-inside-2.new.slots.entries in
    let u = ap (λ (rs : List OutputRef). staying rs es) c.take_all_out-gone.ensures.empty ∙ none_leave es ∙ c.close_if_many-self-inside.ensures.live ∙ c.take_all_out-gone.ensures.live in
    let a = ap (λ (rs : List OutputRef). staying rs ds) c.take_all_out-gone.ensures.empty ∙ none_leave ds ∙ c.close_if_many-self-inside-2.ensures.live ∙ c.take_all_out-gone.ensures.live_datums in
    (λ i. record { unspent = u i; used = s.ids.keys; published = values_of s.objects.entries; moves = s.moves.entries; starts = s.starts.keys; datums = a i }) ∙ ap contents_in c.self.view_is
