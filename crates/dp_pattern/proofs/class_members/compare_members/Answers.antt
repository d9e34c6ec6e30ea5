use Rattle.std.proofs.Common.{◌≡◌, ◌+◌, true, false, sym, ◌∙◌, arith, rules, tests}
use Rattle.dp_pattern.specs.Classes.{has_member}
use Rattle.dp_pattern.proofs.MemberLemmas.{level-first, level-same, level-less, level-greater, level-end}
use Rattle.dp_pattern.proofs.class_members.compare_members.Goals as goal

pub loop-byte-preserved : goal.loop-byte-preserved
loop-byte-preserved c =
    let even : c.has-in_right.result ≡ c.has-in_left.result = search rules in
    level-same (has_member c.args.left.now) (has_member c.args.right.now) c.loop-byte.byte (omega arith) c.loop-byte.invariant c.has-in_left.result (sym c.has-in_left.ensures) (sym c.has-in_right.ensures ∙ even)

pub returns-then-in_left : goal.returns-then-in_left
returns-then-in_left c =
    let p = has_member c.args.left.now in
    let q = has_member c.args.right.now in
    let there : p c.loop-byte.byte ≡ true = search rules in
    let missing : q c.loop-byte.byte ≡ false = search (rules, tests) in
    level-less p q c.loop-byte.byte (omega arith) c.loop-byte.invariant there missing

pub returns-else-in_left : goal.returns-else-in_left
returns-else-in_left c =
    let p = has_member c.args.left.now in
    let q = has_member c.args.right.now in
    let missing : p c.loop-byte.byte ≡ false = search rules in
    let there : q c.loop-byte.byte ≡ true = search (rules, tests) in
    level-greater p q c.loop-byte.byte (omega arith) c.loop-byte.invariant missing there

pub loop-byte-init : goal.loop-byte-init
loop-byte-init c =
    level-first (has_member c.args.left.now) (has_member c.args.right.now) c.min-byte.result (omega arith)
    (λ b below. c.least.ensures b (omega arith)) (λ b below. c.least-2.ensures b (omega arith)) c.requires

-- the last byte
pub returns-else-in_left-in_right : goal.returns-else-in_left-in_right
returns-else-in_left-in_right c =
    let p = has_member c.args.left.now in
    let q = has_member c.args.right.now in
    let even : c.has-in_right.result ≡ c.has-in_left.result = search rules in
    level-end p q (c.loop-byte.byte + 1) (omega arith)
    (level-same p q c.loop-byte.byte (omega arith) c.loop-byte.invariant c.has-in_left.result (sym c.has-in_left.ensures) (sym c.has-in_right.ensures ∙ even))
