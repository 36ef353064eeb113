use Rattle.std.proofs.Common.{pos, ◌≤ℤ◌, sym, ◌∙◌, ap, subst, arith}
use mir.Syntax.{w128}
use Rattle.std.proofs.Math.Facts.{to_z-of_z}
use Rattle.std.proofs.lemmas.Int.{ints}
use Rattle.std.specs.Option.{unwrap_or}
use Rattle.names.specs.declared.token.Token.{Token}
use Rattle.names.specs.Orders.{token_cmp}
use Rattle.names.specs.Totals.{token_total}
use Rattle.names.proofs.FromCollections.Places.{at_in_range, find_gap}
use Rattle.bundle.proofs.WalkLemmas.{amount_there, amount_in-natural}
use Rattle.bundle.proofs.bundle.found_amount.Goals as goal

pub offset_bounds-entries-at : goal.offset_bounds-entries-at
offset_bounds-entries-at c =
    let within = at_in_range token_cmp _ c.args.entries.now c.in-Ok.at c.in-Ok.ensures in
    omega arith

pub bounds-entries-at : goal.bounds-entries-at
bounds-entries-at c = at_in_range token_cmp _ c.args.entries.now c.in-Ok.at c.in-Ok.ensures

pub returns-in-Ok : goal.returns-in-Ok
returns-in-Ok c =
    let token : Token = record { symbol = c.args.symbol.now; name = c.args.name.now } in
    let is = to_z-of_z {w = w128} (record { sfits = c.number_of.type_inv }) ∙ c.number_of.ensures ∙ ap (λ (e : _). e.1) c.index-entries-at.is
    ∙ sym (amount_there token c.args.entries.now c.in-Ok.at c.index-entries-at.result c.in-Ok.ensures) in
    record {
      natural = subst (λ n. pos 0 ≤ℤ n) (sym is) (amount_in-natural c.args.entries.now token c.requires.positive);
      held = is;
    }

pub returns-in-Err : goal.returns-in-Err
returns-in-Err c = record {
  natural = omega (arith, ints);
  held = sym (ap (λ o. unwrap_or o (pos 0)) (find_gap token_cmp _ token_total c.args.entries.now c.in-Err.field-0 c.requires.sorted c.in-Err.ensures));
}
