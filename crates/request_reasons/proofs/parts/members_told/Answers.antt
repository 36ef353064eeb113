use Rattle.std.proofs.Common.{[], map, refl, ap, ◌∙◌, None}
use Rattle.std.proofs.lemmas.Result.{IfOk-weaker}
use Rattle.json.specs.Reads.{token_of}
use Rattle.refusal_reasons.specs.ToldParts.Told.{Told}
use Rattle.request_reasons.proofs.PartLemmas.{members_told}
use Rattle.request_reasons.proofs.parts.members_told.Goals as goal

pub returns : goal.returns
returns c =
    let stop = c.args.stop.now in
    let t : Told =
    record {
      path = c.as_slice.result.now;
      spot = record { line = 1; column = 1 };
      sort = stop.sort;
      fault = stop.fault;
      token = token_of c.args.token;
      keys = map (λ key. key.now) c.as_slice-2.result.now;
      first = None;
      names = [];
    } in
    IfOk-weaker c.part_members.result _ _
    (λ written are. members_told stop c.args.part.now (token_of c.args.token) t written.items c.as_slice.ensures.value refl refl refl refl (ap (map (λ key. key.now)) c.as_slice-2.ensures.value ∙ c.in_ok-keys.ensures) refl refl are)
    c.part_members.ensures
