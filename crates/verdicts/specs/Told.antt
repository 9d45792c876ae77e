-- What an expectation is judged against: what a response, or the handshake's information, holds. Texts are bytes. Assumes nothing.
use Rattle.std.specs.Prelude.{ℕ, Bool, List, Option}

pub record PathInfo : Type 0 where
  pub valid : Bool
  pub deriver : Option (List ℕ)
  pub nar_hash : Option (List ℕ)
  pub references : Option (List (List ℕ))
  pub nar_size : Option ℕ

-- What an operation gave back. Nothing of a string map, of framed or raw bytes is looked up: they are `other`, and so is the Rust's `None`.
pub data Result : Type 0 where
  absent other : Result
  u64 : ℕ → Result
  str : List ℕ → Result
  path_info : PathInfo → Result
  string_set : List (List ℕ) → Result
  collect_garbage : (bytes_freed : ℕ) → Result
  substitutable_path_info : (valid : Bool) → (download_size nar_size : Option ℕ) → Result
  missing : (download_size nar_size : ℕ) → Result

pub record Response : Type 0 where
  -- the name of the last message
  pub terminal : List ℕ
  -- how many messages came before it
  pub stderr_count : ℕ
  pub result : Result
  -- the error's message
  pub error : Option (List ℕ)

-- What the handshake told, as far as something is looked up in it.
pub record Info : Type 0 where
  pub server_features : List (List ℕ)
  pub daemon_nix_version : Option (List ℕ)
  pub trust_status : Option ℕ

-- the handshake is judged against its information, an entry against a response
pub data Subject : Type 0 where
  greeting : Info → Subject
  reply : Response → Subject
