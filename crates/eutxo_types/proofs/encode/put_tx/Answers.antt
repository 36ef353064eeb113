use Rattle.std.proofs.Common.{◌≡◌, sym, ◌∙◌, ℕ, List, [], ◌++◌, rules}
use Rattle.std.proofs.lemmas.List.{append-nil}
use Rattle.std.proofs.lemmas.Result.{on_err_weaker}
use Rattle.machine.specs.ContractBytes.Writing.{AppendsFront}
use Rattle.machine.specs.ContractBytes.Numbers.{time_bytes, text_bytes, list_bytes}
use Rattle.machine.proofs.FromContractBytes.Fronts.{on_any_err, front_as, front_first, wrote_both, front_then}
use Rattle.machine.specs.Spelling.{datum_bytes}
use Rattle.eutxo_types.specs.Spelling.{spend_bytes, output_bytes}
use Rattle.eutxo_types.proofs.encode.put_tx.Goals as goal

pub returns-in_err-put_list-clause-err : goal.returns-in_err-put_list-clause-err
returns-in_err-put_list-clause-err c =
    let tx = c.args.tx.now in
    let signers = list_bytes text_bytes tx.signers in
    let datums = list_bytes datum_bytes tx.datums in
    on_any_err c.from_residual.result
    (front_as (λ i. list_bytes spend_bytes (sym c.as_slice.ensures i) ++ list_bytes output_bytes tx.outputs ++ time_bytes tx.interval.from ++ time_bytes tx.interval.to ++ signers ++ datums)
    (front_first datums (front_first signers (front_first (time_bytes tx.interval.to) (front_first (time_bytes tx.interval.from) (front_first (list_bytes output_bytes tx.outputs) c.in_err-put_list.ensures.err))))))

pub returns-in_err-put_list-2-clause-err : goal.returns-in_err-put_list-2-clause-err
returns-in_err-put_list-2-clause-err c =
    let tx = c.args.tx.now in
    let signers = list_bytes text_bytes tx.signers in
    let datums = list_bytes datum_bytes tx.datums in
    on_any_err c.from_residual-in_err-put_list-2.result
    (front_as (λ i. list_bytes spend_bytes (sym c.as_slice.ensures i) ++ list_bytes output_bytes (sym c.as_slice-2.ensures i) ++ time_bytes tx.interval.from ++ time_bytes tx.interval.to ++ signers ++ datums)
    (front_first datums (front_first signers (front_first (time_bytes tx.interval.to) (front_first (time_bytes tx.interval.from) (front_then (list_bytes spend_bytes c.as_slice.result.now) c.in_ok-put_list.ensures.spelling c.in_err-put_list-2.ensures.err))))))

-- all of a first part, and nothing of the next
front_all : {a old new : List ℕ} → new ≡ old ++ a → AppendsFront a old new
front_all {a = a} h = record { front = a; rest = []; split = sym (append-nil a); appended = h }

pub returns-in_err-put_time-clause-err : goal.returns-in_err-put_time-clause-err
returns-in_err-put_time-clause-err c =
    let tx = c.args.tx.now in
    let signers = list_bytes text_bytes tx.signers in
    let datums = list_bytes datum_bytes tx.datums in
    let inputs = list_bytes spend_bytes c.as_slice.result.now in
    let outputs = list_bytes output_bytes c.as_slice-2.result.now in
    let both = wrote_both c.args.out.now.items inputs outputs c.in_ok-put_list.ensures.spelling c.in_ok-put_list-2.ensures.spelling in
    on_any_err c.from_residual-in_err-put_time.result
    (front_as (λ i. list_bytes spend_bytes (sym c.as_slice.ensures i) ++ list_bytes output_bytes (sym c.as_slice-2.ensures i) ++ time_bytes tx.interval.from ++ time_bytes tx.interval.to ++ signers ++ datums)
    (front_first datums (front_first signers (front_first (time_bytes tx.interval.to) (front_first (time_bytes tx.interval.from) (front_all (c.in_err-put_time.ensures.err ∙ both)))))))

pub returns-in_err-put_time-2-clause-err : goal.returns-in_err-put_time-2-clause-err
returns-in_err-put_time-2-clause-err c =
    let tx = c.args.tx.now in
    let signers = list_bytes text_bytes tx.signers in
    let datums = list_bytes datum_bytes tx.datums in
    let inputs = list_bytes spend_bytes c.as_slice.result.now in
    let outputs = list_bytes output_bytes c.as_slice-2.result.now in
    let spelled_from : c.put_time.new.out.items ≡ c.put_list-2.new.out.items ++ time_bytes tx.interval.from = search rules in
    let both = wrote_both c.args.out.now.items inputs outputs c.in_ok-put_list.ensures.spelling c.in_ok-put_list-2.ensures.spelling in
    let three = wrote_both c.args.out.now.items (inputs ++ outputs) (time_bytes tx.interval.from) both spelled_from in
    on_any_err c.from_residual-in_err-put_time-2.result
    (front_as (λ i. list_bytes spend_bytes (sym c.as_slice.ensures i) ++ list_bytes output_bytes (sym c.as_slice-2.ensures i) ++ time_bytes tx.interval.from ++ time_bytes tx.interval.to ++ signers ++ datums)
    (front_first datums (front_first signers (front_first (time_bytes tx.interval.to) (front_all (c.in_err-put_time-2.ensures.err ∙ three))))))

pub returns-in_err-put_list-3-clause-err : goal.returns-in_err-put_list-3-clause-err
returns-in_err-put_list-3-clause-err c =
    let tx = c.args.tx.now in
    let out = c.args.out.now.items in
    let inputs = list_bytes spend_bytes c.as_slice.result.now in
    let outputs = list_bytes output_bytes c.as_slice-2.result.now in
    let from = time_bytes tx.interval.from in
    let to = time_bytes tx.interval.to in
    let datums = list_bytes datum_bytes tx.datums in
    let spelled_from : c.put_time.new.out.items ≡ c.put_list-2.new.out.items ++ time_bytes tx.interval.from = search rules in
    let spelled_to : c.put_time-2.new.out.items ≡ c.put_time.new.out.items ++ time_bytes tx.interval.to = search rules in
    let both = wrote_both out inputs outputs c.in_ok-put_list.ensures.spelling c.in_ok-put_list-2.ensures.spelling in
    let ends = wrote_both out (inputs ++ outputs ++ from) to (wrote_both out (inputs ++ outputs) from both spelled_from) spelled_to in
    on_any_err c.from_residual-in_err-put_list-3.result
    (front_as (λ i. list_bytes spend_bytes (sym c.as_slice.ensures i) ++ list_bytes output_bytes (sym c.as_slice-2.ensures i) ++ from ++ to ++ list_bytes text_bytes (sym c.as_slice-3.ensures i) ++ datums)
    (front_first datums (front_then (inputs ++ outputs ++ from ++ to) ends c.in_err-put_list-3.ensures.err)))

pub returns-clause-err : goal.returns-clause-err
returns-clause-err c =
    let tx = c.args.tx.now in
    let out = c.args.out.now.items in
    let inputs = list_bytes spend_bytes c.as_slice.result.now in
    let outputs = list_bytes output_bytes c.as_slice-2.result.now in
    let from = time_bytes tx.interval.from in
    let to = time_bytes tx.interval.to in
    let signers = list_bytes text_bytes c.as_slice-3.result.now in
    let spelled_from : c.put_time.new.out.items ≡ c.put_list-2.new.out.items ++ time_bytes tx.interval.from = search rules in
    let spelled_to : c.put_time-2.new.out.items ≡ c.put_time.new.out.items ++ time_bytes tx.interval.to = search rules in
    let both = wrote_both out inputs outputs c.in_ok-put_list.ensures.spelling c.in_ok-put_list-2.ensures.spelling in
    let ends = wrote_both out (inputs ++ outputs ++ from) to (wrote_both out (inputs ++ outputs) from both spelled_from) spelled_to in
    let signed = wrote_both out (inputs ++ outputs ++ from ++ to) signers ends c.in_ok-put_list-3.ensures.spelling in
    on_err_weaker c.put_list-4.result
    (λ h. front_as (λ i. list_bytes spend_bytes (sym c.as_slice.ensures i) ++ list_bytes output_bytes (sym c.as_slice-2.ensures i) ++ from ++ to ++ list_bytes text_bytes (sym c.as_slice-3.ensures i) ++ list_bytes datum_bytes (sym c.as_slice-4.ensures i))
    (front_then (inputs ++ outputs ++ from ++ to ++ signers) signed h)) c.put_list-4.ensures.err
