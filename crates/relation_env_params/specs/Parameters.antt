-- What the record of the code stands for.
use Rattle.spec_protocol.specs.Parameters.{Parameters}
use Rattle.relation_env_params.specs.declared.env_params.EnvironmentParameters.{EnvironmentParameters}

-- the parameters of a record
abbrev pub parameters_of : EnvironmentParameters → Parameters
parameters_of params = record {
  n = params.rank;
  r = params.multiplicity;
  κ = params.kappa;
  κ₁ = params.kappa_1;
  κ₂ = params.kappa_2;
  K = params.constraint_k;
  l = params.constraint_l;
  log_q = params.log_q;
  b = params.b;
  t₁ = params.t_1;
  t₂ = params.t_2;
  L = params.const_agg_length;
  beta_sq = params.beta_sq;
  beta_prime_sq = params.beta_prime_sq;
  bound_A = params.bound_a;
  bound_B = params.bound_b;
  bound_C = params.bound_c;
  bound_D = params.bound_d;
}
