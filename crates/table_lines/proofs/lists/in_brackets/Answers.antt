use Rattle.std.proofs.Common.{◌∙◌, ap, ◌++◌, map, string_bytes}
use Rattle.table_lines.specs.TableLines.{listed_on}
use Rattle.table_lines.proofs.Printed.{item-more, items-over, items-whole}
use Rattle.table_lines.proofs.lists.in_brackets.Goals as goal

pub loop-item-preserved : goal.loop-item-preserved
loop-item-preserved g c =
    item-more g.T.Item.word c.in-Some.rest.now c.loop-item.item-index c.item-item.result (string_bytes c.loop-item.text) (string_bytes c.push_str-in-loop-item.new.self)
    (string_bytes c.push_str-in-loop-item-2.new.self) (string_bytes c.push_str.new.self ++ listed_on (map g.T.Item.word c.in-Some.rest.now))
    c.loop-item-test.true c.item-item.is c.in_ok-push_str-2.ensures.bytes
    (c.in_ok-push_str-3.ensures.bytes ∙ ap (λ w. string_bytes c.push_str-in-loop-item.new.self ++ w) (c.as_str-in-loop-item.ensures.value ∙ c.in_ok-text-3.ensures))
    c.loop-item.invariant

pub returns : goal.returns
returns g c =
    items-whole g.T.Item.word c.args.items.now c.in-Some.rest.now c.in-Some.first.now (string_bytes c.in_ok-text.text) (string_bytes c.push_str.new.self) (string_bytes c.push_str-2.new.self)
    c.in_ok-text.ensures.ok
    (c.in_ok-push_str.ensures.bytes ∙ ap (λ w. string_bytes c.in_ok-text.text ++ w) (c.as_str.ensures.value ∙ c.in_ok-text-2.ensures))
    c.in-Some.ensures.cases.0
    (items-over g.T.Item.word c.in-Some.rest.now c.loop-item.item-index (string_bytes c.loop-item.text) (string_bytes c.push_str-2.new.self)
    (string_bytes c.push_str.new.self ++ listed_on (map g.T.Item.word c.in-Some.rest.now)) c.loop-item-test.false c.in_ok-push_str-4.ensures.bytes c.loop-item.invariant)
