use Rattle.std.proofs.Common.{string_bytes, ◌∙◌, [], ◌∷◌, ◌++◌, encode_utf8_all}
use Rattle.std.proofs.lemmas.Result.{on_ok_weaker}
use Rattle.text_spots.proofs.ShownLemmas.{six_chars}
use Rattle.text_spots.proofs.shown.put_escape.Goals as goal

pub returns : goal.returns
returns c =
    let given = string_bytes c.args.out.now in
    on_ok_weaker c.put_char-6.result
    (λ last. six_chars 92 117 c.digit-first.result c.digit-second.result c.digit-third.result c.digit-fourth.result given (string_bytes c.put_char.new.out) (string_bytes c.put_char-2.new.out)
    (string_bytes c.put_char-3.new.out) (string_bytes c.put_char-4.new.out) (string_bytes c.put_char-5.new.out) (string_bytes c.put_char-6.new.out) c.in_ok-put_char.ensures c.in_ok-put_char-2.ensures
    c.in_ok-put_char-3.ensures c.in_ok-put_char-4.ensures c.in_ok-put_char-5.ensures last
    ∙ (λ i. given ++ encode_utf8_all (92 ∷ 117 ∷ c.digit-first.ensures i ∷ c.digit-second.ensures i ∷ c.digit-third.ensures i ∷ c.digit-fourth.ensures i ∷ [])))
    c.put_char-6.ensures
