-- `game::given::accepted` meets its contract: the refusal that comes first, or the game of these numbers, since every transition leads to a state.
-- Assumes nothing.
use Rattle.std.proofs.Common.{◌≡◌, sym, ◌∙◌, subst}
use Rattle.std.specs.Prelude.{Some, None}
use Rattle.std.proofs.lemmas.Result.{err_from_is_err_and}
use Rattle.plays.specs.Arena.{Arena, arena}
use Rattle.game.specs.Given.{later_refusal}
use Rattle.game.proofs.GivenLaws.{unsized, refused_later, accepted}
use Rattle.game.proofs.given.accepted.Goals as goal

pub returns-in_err-automaton : goal.returns-in_err-automaton
returns-in_err-automaton c =
    let p = err_from_is_err_and c.from_residual.result c.from_residual.ensures.1 in
    rw (p.1, p.2)
    (unsized c.args.i c.args.o c.args.start (arena c.args.i c.args.o c.args.n c.args.transitions.now c.args.accepting.now c.args.mask) c.args.system.now
    c.args.environment.now _ c.in_err-automaton.ensures)

pub returns-in-Some : goal.returns-in-Some
returns-in-Some c =
    let G : Arena = arena c.args.i c.args.o c.args.n c.args.transitions.now c.args.accepting.now c.args.mask in
    let s = c.in_ok-automaton.ensures in
    let later = subst (λ (H : Arena). c.later_refusal.result ≡ later_refusal c.args.start H c.args.system.now c.args.environment.now) (s.2 c.args.mask)
    c.later_refusal.ensures in
    sym (refused_later c.args.i c.args.o c.args.start G c.args.system.now c.args.environment.now s.0 s.1 (Some c.in-Some.refusal) (sym c.in-Some.is ∙ later))

pub game_of-requires : goal.game_of-requires
game_of-requires c =
    let G : Arena = arena c.args.i c.args.o c.args.n c.args.transitions.now c.args.accepting.now c.args.mask in
    let s = c.in_ok-automaton.ensures in
    let later = subst (λ (H : Arena). c.later_refusal.result ≡ later_refusal c.args.start H c.args.system.now c.args.environment.now) (s.2 c.args.mask)
    c.later_refusal.ensures in
    let served = sym (refused_later c.args.i c.args.o c.args.start G c.args.system.now c.args.environment.now s.0 s.1 None (sym c.in_default.is ∙ later)) in
    let w = accepted c.args.i c.args.o c.args.start c.args.n c.args.transitions.now c.args.accepting.now c.args.mask c.args.system.now c.args.environment.now served in
    record { alphabet = w.alphabet; valid = w.valid }

pub returns : goal.returns
returns c =
    let G : Arena = arena c.args.i c.args.o c.args.n c.args.transitions.now c.args.accepting.now c.args.mask in
    let s = c.in_ok-automaton.ensures in
    let later = subst (λ (H : Arena). c.later_refusal.result ≡ later_refusal c.args.start H c.args.system.now c.args.environment.now) (s.2 c.args.mask)
    c.later_refusal.ensures in (
      sym (refused_later c.args.i c.args.o c.args.start G c.args.system.now c.args.environment.now s.0 s.1 None (sym c.in_default.is ∙ later)),
      c.game_of.ensures.mode,
      c.game_of.ensures.arena,
    )
