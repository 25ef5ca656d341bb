use Rattle.std.proofs.Common.{◌≡◌, ◌⊎◌, inr, rules, subst, to_z, of_z, w64}
use Rattle.bsc_store.specs.Reading.{IsNumbered, IsUnread, query_text, up_to_query, up_to_values}
use Rattle.bsc_store.proofs.reading.next.Goals as goal

pub returns-in-Err-Damaged-clause-fault : goal.returns-in-Err-Damaged-clause-fault
returns-in-Err-Damaged-clause-fault g c =
    let back : to_z w64 (of_z w64 c.args.mark) ≡ c.args.mark = search rules in
    let old = c.first_row.new.conn in
    let new = c.damaged.new.conn in
    let text = query_text (up_to_query c.args.side) in
    let names = subst
    (λ m. IsUnread g.S.Store text (up_to_values c.args.channel.now m) old new c.damaged.result
    ⊎ IsNumbered g.S.Store c.args.side c.args.channel.now m c.args.more old new c.damaged.result)
    back c.damaged.ensures.names in
    inr (inr (record {
      mid = old;
      row = c.in-Some.row;
      gives = search rules;
      wrong = c.in-Err-Damaged.ensures.damaged (search rules);
      names = names;
    }))
