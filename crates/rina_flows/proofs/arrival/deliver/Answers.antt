use Rattle.std.proofs.Common.{◌++◌, ◌∷◌, [], List, ℕ, arith, rules, ◌∙◌, sym, ap, append_assoc}
use Rattle.std.proofs.lemmas.List.{append-nil}
use Rattle.std.specs.Vec.{vec_capacity, vec_len}
use Rattle.rina_flows.proofs.Delivered.{delivering_more, delivered_all, empty_by}
use Rattle.rina_flows.proofs.arrival.deliver.Goals as goal

pub loop-bytes-preserved : goal.loop-bytes-preserved
loop-bytes-preserved c =
    let all = append_assoc c.loop-bytes.yielded (c.in-Some.bytes ∷ []) c.next.new.self.rest.items ∙ ap (λ (xs : List (List ℕ)). c.loop-bytes.yielded ++ xs) (sym c.in-Some.ensures.steps.0) ∙ c.loop-bytes.invariant.all in
    record {
      delivering = λ bodies. delivering_more c.args.now c.args.conn.now c.args.got.now.items (vec_capacity c.args.got.now) c.loop-bytes.yielded c.in-Some.bytes c.next.new.self.rest.items c.loop-bytes.conn c.fetch.new.conn c.loop-bytes.got.items c.push.new.self.items (vec_capacity c.loop-bytes.got) (vec_len c.loop-bytes.got) c.in-Some-fetch.num c.push.result (all ∙ bodies) (c.loop-bytes.invariant.delivering bodies) c.loop-bytes.invariant.capacity c.in-Some-fetch.ensures.num c.fetch.ensures.rest c.push.ensures.items c.loop-bytes.got.ok.0 c.push.ensures.full;
      all = all;
      capacity = search rules;
    }

pub loop-bytes-preserved-in-Some-fetch : goal.loop-bytes-preserved-in-Some-fetch
loop-bytes-preserved-in-Some-fetch c =
    let all = append_assoc c.loop-bytes.yielded (c.in-Some.bytes ∷ []) c.next.new.self.rest.items ∙ ap (λ (xs : List (List ℕ)). c.loop-bytes.yielded ++ xs) (sym c.in-Some.ensures.steps.0) ∙ c.loop-bytes.invariant.all in
    record {
      delivering = λ bodies. delivering_more c.args.now c.args.conn.now c.args.got.now.items (vec_capacity c.args.got.now) c.loop-bytes.yielded c.in-Some.bytes c.next.new.self.rest.items c.loop-bytes.conn c.fetch.new.conn c.loop-bytes.got.items c.push.new.self.items (vec_capacity c.loop-bytes.got) (vec_len c.loop-bytes.got) c.in-Some-fetch.num c.push.result (all ∙ bodies) (c.loop-bytes.invariant.delivering bodies) c.loop-bytes.invariant.capacity c.in-Some-fetch.ensures.num c.fetch.ensures.rest c.push.ensures.items c.loop-bytes.got.ok.0 c.push.ensures.full;
      all = all;
      capacity = search rules;
    }

pub returns : goal.returns
returns c =
    let none = empty_by c.loop-bytes.bytes-iterator.rest.items (omega (arith, c.in-None.ensures.steps.0)) in
    let all = sym (append-nil c.loop-bytes.yielded) ∙ ap (λ (xs : List (List ℕ)). c.loop-bytes.yielded ++ xs) (sym none) ∙ c.loop-bytes.invariant.all in
    λ bodies. delivered_all c.args.now c.args.conn.now c.args.got.now.items (vec_capacity c.args.got.now) c.loop-bytes.yielded c.loop-bytes.conn c.loop-bytes.got.items (all ∙ bodies) (c.loop-bytes.invariant.delivering bodies)
